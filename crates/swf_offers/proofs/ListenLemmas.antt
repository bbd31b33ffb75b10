-- Which filters of a `listen` are passed over.
use Rattle.std.proofs.Common.{arith, ◌≡◌, ◌∙◌, ℕ, List, [], ◌∷◌, true, None, ap, ◌<◌, ◌+◌, length, get_or, drop}
use Rattle.std.proofs.lemmas.List.{drop_more}
use Rattle.std.specs.Prelude.{if◌then◌else◌}
use Rattle.swf_value.specs.Value.{Members}
use Rattle.swf_cloudevents.specs.declared.event.Event.{Event}
use Rattle.swf_document.specs.declared.event.Filter.{Filter}
use Rattle.swf_templates.specs.Filter.{correlated}
use Rattle.swf_meaning.specs.Listen.{is_met, or_else, hears, taken_from}
use Rattle.swf_meaning.specs.declared.heard.Heard.{Heard}

-- a filter that has an event is passed over
pub met-passed : (fs : List Filter) (n : ℕ) (bound : Members) (hs : List Heard) (e : Event) → n < length fs → is_met n hs ≡ true → taken_from n (drop n fs) bound hs e ≡ taken_from (n + 1) (drop (n + 1) fs) bound hs e
met-passed [] n bound hs e p m = absurd (omega arith)
met-passed (x ∷ xs) n bound hs e p m =
    ap (λ l. taken_from n l bound hs e) (drop_more (x ∷ xs) n x p)
    ∙ ap (λ b. or_else (if b then None else hears n e hs (correlated (get_or (x ∷ xs) n x) bound e)) (taken_from (n + 1) (drop (n + 1) (x ∷ xs)) bound hs e)) m
