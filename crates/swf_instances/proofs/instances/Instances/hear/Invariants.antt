use Rattle.std.proofs.Common.{◌≡◌}
use Rattle.std.specs.List.{AllByRecursion}
use Rattle.swf_instances.specs.Offers.{put_all, IsHeardFrom}
use Rattle.swf_instances.proofs.instances.Instances.hear.Given as goal

-- those so far are in their places, and the others can be put there
abbrev pub invariant-loop-number : goal.invariant-loop-number
invariant-loop-number l =
    let hs = l.number-iterator.rest.items in
    record {
      heard : put_all hs l.self.instances ≡ put_all l.fn.heard.items l.fn.self.instances;
      from : AllByRecursion (IsHeardFrom l.self.instances) hs;
      moment : l.self.moment ≡ l.fn.self.moment;
    }
