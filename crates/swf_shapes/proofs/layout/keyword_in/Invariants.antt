use Rattle.std.proofs.Common.{◌≡◌, map, drop, IsTrue}
use Rattle.std.specs.List.{list_all}
use Rattle.swf_text.specs.Same.{is_ascii}
use Rattle.swf_shapes.specs.Layout.{keyword_in}
use Rattle.swf_shapes.specs.Row.{keyword_row}
use Rattle.swf_shapes.proofs.layout.keyword_in.Given as goal

-- the words that are left decide
abbrev pub invariant-loop-word : goal.invariant-loop-word
invariant-loop-word l = record {
  decide : keyword_in (map keyword_row l.words) l.name ≡ keyword_in (map keyword_row (drop l.word-index l.words)) l.name;
  ascii : IsTrue (list_all (λ w. is_ascii w.word.now) (drop l.word-index l.words));
}
