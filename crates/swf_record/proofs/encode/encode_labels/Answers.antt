use Rattle.std.proofs.Common.{◌∙◌, ap, subst, ◌++◌, List, length, arith}
use Rattle.std.proofs.lemmas.List.{take_all}
use Rattle.std.specs.List.{AllByRecursion, flat_map}
use Rattle.swf_meaning.specs.declared.label.Label.{Label}
use Rattle.swf_record.specs.Encodes.{four_bytes, label_bytes, labels_bytes, Fits}
use Rattle.swf_record.proofs.encode.encode_labels.Goals as goal

pub returns : goal.returns
unfolding labels_bytes
returns c =
    let labels = c.args.labels.now in
    let whole = take_all c.loop-label.label-index labels c.loop-label-test.false in
    record {
      some = omega (arith, c.requires.some);
      few = c.requires.few;
      fit = subst (AllByRecursion Fits) whole c.loop-label.invariant.1;
      spelled = c.loop-label.invariant.0 ∙ ap (λ (ls : List Label). four_bytes (length labels) ++ flat_map label_bytes ls) whole;
    }
