use Rattle.swf_jq_builtins.proofs.Names.{ascii_name}
use Rattle.swf_jq_builtins.proofs.outcome.cannot.Goals as goal

pub push_ascii-requires-2 : goal.push_ascii-requires-2
push_ascii-requires-2 c = rw c.name.ensures (ascii_name c.args.builtin)
