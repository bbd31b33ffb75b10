use Rattle.std.proofs.Common.{◌∙◌, ap, sym, Some, None, option_map, arith}
use Rattle.swf_meaning.specs.Documents.{document_at}
use Rattle.swf_world.specs.Parts.{world_of}
use Rattle.swf_world.proofs.Checks.{start_refused, too_many, not_too_many}
use Rattle.swf_world.proofs.world.World.startable.Goals as goal

pub returns-in_default-get-clause-refused : goal.returns-in_default-get-clause-refused
returns-in_default-get-clause-refused c =
    start_refused (world_of c.self.inside) c.args.self.now.world c.args.id.now c.args.key.now None (ap (λ h. h.world) c.self.view_is) (sym c.place.ensures ∙ c.in_default.is)
    (sym c.get.ensures ∙ ap (option_map (λ d. d.now)) c.in_default-get.is)

pub returns-then-len-ge-MOST_INSTANCES-clause-refused : goal.returns-then-len-ge-MOST_INSTANCES-clause-refused
returns-then-len-ge-MOST_INSTANCES-clause-refused c =
    sym (too_many (world_of c.self.inside) c.in-Some-get.document.now (omega (arith, c.len.ensures.len)))
    ∙ start_refused (world_of c.self.inside) c.args.self.now.world c.args.id.now c.args.key.now (Some c.in-Some-get.document.now) (ap (λ h. h.world) c.self.view_is) (sym c.place.ensures ∙ c.in_default.is)
    (sym c.get.ensures ∙ ap (option_map (λ d. d.now)) c.in-Some-get.is)

pub returns-clause-refused : goal.returns-clause-refused
returns-clause-refused c =
    sym (not_too_many (world_of c.self.inside) c.in-Some-get.document.now (omega (arith, c.len.ensures.len)))
    ∙ start_refused (world_of c.self.inside) c.args.self.now.world c.args.id.now c.args.key.now (Some c.in-Some-get.document.now) (ap (λ h. h.world) c.self.view_is) (sym c.place.ensures ∙ c.in_default.is)
    (sym c.get.ensures ∙ ap (option_map (λ d. d.now)) c.in-Some-get.is)

pub returns-clause-found : goal.returns-clause-found
returns-clause-found c = sym (ap (λ h. document_at c.args.key.now h.world.documents) c.self.view_is) ∙ sym c.get.ensures ∙ ap (option_map (λ d. d.now)) c.in-Some-get.is
