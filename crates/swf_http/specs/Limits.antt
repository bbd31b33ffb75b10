-- How large a message may be.
use Rattle.std.specs.Prelude.{ℕ}

-- the most bytes of a head, with the responses before it that are read past
abbrev pub most_head : ℕ
most_head = 65536

-- the most fields of a head or a trailer
abbrev pub most_fields : ℕ
most_fields = 100

-- the most bytes of a body
abbrev pub most_body : ℕ
most_body = 1048576

-- the most bytes of a body's chunk lines and trailer
abbrev pub most_lines : ℕ
most_lines = 16777216
