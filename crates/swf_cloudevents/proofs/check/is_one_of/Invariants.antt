use Rattle.std.proofs.Common.{◌≡◌, map, drop, IsTrue}
use Rattle.std.specs.List.{list_all, list_any}
use Rattle.swf_text.specs.Same.{same, is_ascii}
use Rattle.swf_cloudevents.proofs.check.is_one_of.Given as goal

-- the words that are left decide
abbrev pub invariant-loop-word : goal.invariant-loop-word
invariant-loop-word l = record {
  decide : list_any (same l.text) (map (λ w. w.now) l.words) ≡ list_any (same l.text) (map (λ w. w.now) (drop l.word-index l.words));
  ascii : IsTrue (list_all (λ w. is_ascii w.now) (drop l.word-index l.words));
}
