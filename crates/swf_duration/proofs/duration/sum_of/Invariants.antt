use Rattle.std.proofs.Common.{◌≡◌, ◌≤◌, drop, option_map, Some}
use Rattle.swf_value.specs.Node.{members_of}
use Rattle.swf_duration.specs.Capped.{capped}
use Rattle.swf_duration.specs.Duration.{sum_of, total}
use Rattle.swf_duration.proofs.duration.sum_of.Given as goal

-- the sum so far, and that of the members that are left
abbrev pub invariant-loop-member : goal.invariant-loop-member
invariant-loop-member l = record {
  sum : option_map capped (sum_of (members_of l.members)) ≡ option_map capped (total (Some l.sum) (sum_of (members_of (drop l.member-index l.members))));
  within : l.sum ≤ 315360000001;
}
