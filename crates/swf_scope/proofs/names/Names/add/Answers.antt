use Rattle.std.proofs.Common.{◌∙◌, ap, sym, cond, Some}
use Rattle.swf_text.specs.Same.{same}
use Rattle.swf_scope.specs.NamesView.{places_in}
use Rattle.swf_scope.proofs.NamesLemmas.{inserted}
use Rattle.swf_scope.proofs.names.Names.add.Goals as goal

pub returns-clause-names : goal.returns-clause-names
returns-clause-names c =
    let f = places_in c.args.self.now in
    inserted f (places_in (record { places = c.insert.new.self })) c.args.name.now c.args.place (sym c.has.ensures ∙ c.if-has.false)
    (λ q. c.in_ok-insert.ensures.updates.0 q ∙ ap (λ k. cond (same k q) (Some c.args.place) (f q)) c.in_ok-copy.ensures)
