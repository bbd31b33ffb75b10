-- A row of a table of shapes, as the code has it.
use Rattle.std.specs.Prelude.{ℕ, List, Bool}
use Rattle.std.specs.List.{list_all}
use Rattle.swf_text.specs.Same.{is_ascii}
use Rattle.swf_shapes.specs.declared.layout.Keyword.{Keyword}
use Rattle.swf_shapes.specs.declared.layout.Word.{Word}
use Rattle.swf_shapes.specs.declared.rows.Row.{Row as Written}
use Rattle.swf_shapes.specs.Shapes.{Row}

abbrev pub row_of : Written → Row
row_of r = record { name = r.name.now; is_required = r.required; shape = r.shape }

-- each name is ASCII
abbrev pub are_ascii : List Written → Bool
are_ascii rs = list_all (λ r. is_ascii r.name.now) rs

abbrev pub keyword_row : Word → List ℕ × Keyword
keyword_row w = (w.word.now, w.keyword)
