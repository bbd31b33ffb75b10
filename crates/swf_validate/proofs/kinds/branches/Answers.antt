use Rattle.std.proofs.Common.{◌≡◌, ◌∙◌, ◌++◌, ap, sym, subst, OnOk, nat_le}
use Rattle.swf_document.specs.declared.fault.FaultKind.TheVariants.{TooMany}
use Rattle.swf_scope.specs.Scope.{fault_unless}
use Rattle.swf_scope.specs.Spots.{place_at}
use Rattle.swf_validate.specs.TaskFaults.{count_list, most_branches}
use Rattle.swf_validate.proofs.NamedLemmas.{count-tasks_of}
use Rattle.swf_validate.proofs.kinds.branches.Goals as goal

pub returns : goal.returns
returns c =
    subst (λ n. OnOk c.tell_unless.result (c.tell_unless.new.out ≡ c.args.out.now ++ fault_unless (nat_le n most_branches) (place_at c.args.at.now) TooMany))
    (sym (count-tasks_of c.as_slice.result.now) ∙ ap count_list c.as_slice.ensures) c.tell_unless.ensures
