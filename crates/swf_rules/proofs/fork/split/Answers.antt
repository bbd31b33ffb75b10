use Rattle.std.proofs.Common.{◌∙◌, Ok, ap, sym}
use Rattle.std.specs.Prelude.{None}
use Rattle.swf_stack.specs.Stack.{made_node, stepped_of}
use Rattle.swf_stack.specs.declared.made.Top.TheVariants as tops
use Rattle.swf_rule.specs.Rules.{line_in}
use Rattle.swf_rules.proofs.ForkLemmas.{split-some}
use Rattle.swf_rules.proofs.fork.split.Goals as goal

pub returns : goal.returns
returns c =
    let l = line_in c.args.rule.now in
    split-some l c.args.rule.now.running.now c.args.branches.now (sym c.is_empty.ensures ∙ c.if-is_empty.false) c.requires
    ∙ sym (ap Ok (ap (stepped_of l) c.in_ok-becoming.ensures ∙ (λ i. record { node = made_node (tops.Forked (c.in_ok-copy.ensures i)); context = l.context; used = 0; emitted = None })))
