use Rattle.std.proofs.Common.{◌≡◌, nat_lt, Some}
use Rattle.std.specs.Prelude.{IfOk}
use Rattle.swf_frames.specs.Tree.{find}
use Rattle.swf_meaning.specs.Offer.{offered}
use Rattle.swf_strands.specs.Strands.{node_of}
use Rattle.swf_strands.proofs.TreeLemmas.{root-held}
use Rattle.swf_tasks.proofs.WayLemmas.{of-root, all-told}
use Rattle.swf_tasks.proofs.machine.Machine.hears.Goals as goal

pub hears_in-requires : goal.hears_in-requires
hears_in-requires c = root-held c.self.inside.forest c.root.result c.root.ensures.root c.root.ensures.distinct c.self.invariant.0

pub returns : goal.returns
returns c =
    of-root (λ n. IfOk c.hears_in.result (λ b. b ≡ nat_lt 0 (offered c.args.offer.now n).1)) c.self.inside.setting c.self.inside.forest c.root.result c.args.self.now c.self.view_is c.root.ensures.root c.self.invariant.0 (λ b f.
    all-told (λ x. find c.self.inside.forest.strands c.root.result ≡ Some x) (λ h x. h ≡ nat_lt 0 (offered c.args.offer.now (node_of x)).1) c.hears_in.result b f c.hears_in.ensures)
