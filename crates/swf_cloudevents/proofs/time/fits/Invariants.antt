use Rattle.std.proofs.Common.{◌≡◌, drop}
use Rattle.swf_cloudevents.specs.Time.{fits}
use Rattle.swf_cloudevents.proofs.time.fits.Given as goal

-- what is left decides
abbrev pub invariant-loop-place : goal.invariant-loop-place
invariant-loop-place l = fits l.template l.text ≡ fits (drop l.place l.template) (drop l.place l.text)
