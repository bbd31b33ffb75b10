use Rattle.swf_jq_builtins.proofs.Lists.{appended}
use Rattle.swf_jq_builtins.proofs.operations.append.Goals as goal

pub returns : goal.returns
returns c = appended c.extend_from_slice.result c.args.out.now.items c.extend_from_slice.new.self.items c.args.values.now c.extend_from_slice.ensures.items
