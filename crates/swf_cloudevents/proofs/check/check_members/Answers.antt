use Rattle.std.proofs.Common.{rules}
use Rattle.swf_cloudevents.proofs.check.check_members.Goals as goal

pub returns-in_err-check_optional : goal.returns-in_err-check_optional
returns-in_err-check_optional c =
    rw (c.in_ok-check_required.ensures, c.in_ok-check_required-2.ensures, c.in_ok-check_required-3.ensures, c.in_ok-check_version.ensures, c.in_ok-check_required-4.ensures) (search rules)
