-- The built-in functions' names and numbers of arguments (jq 1.7 manual, «Builtin operators and functions»).
use Rattle.std.specs.Prelude.{◌==◌, ◌&&◌, ℕ, List, [], ◌∷◌, Option, Some, None, Bool, codes, if◌then◌else◌}
use Rattle.std.specs.Cmp.Lexicographic.{pointwise}
use Rattle.swf_expr.specs.declared.builtin.Builtin.{Builtin}
use Rattle.swf_expr.specs.declared.builtin.Builtin.TheVariants as builtins

-- the name that a built-in is called by, in ASCII
abbrev pub builtin_name : Builtin → List ℕ
builtin_name builtins.Length = codes "length"
builtin_name builtins.Keys = codes "keys"
builtin_name builtins.Has = codes "has"
builtin_name builtins.Add = codes "add"
builtin_name builtins.Any = codes "any"
builtin_name builtins.All = codes "all"
builtin_name builtins.AnyOf = codes "any"
builtin_name builtins.AllOf = codes "all"
builtin_name builtins.Map = codes "map"
builtin_name builtins.Select = codes "select"
builtin_name builtins.Empty = codes "empty"
builtin_name builtins.Not = codes "not"
builtin_name builtins.Type = codes "type"
builtin_name builtins.Error = codes "error"
builtin_name builtins.ErrorWith = codes "error"
builtin_name builtins.ToString = codes "tostring"
builtin_name builtins.ToJson = codes "tojson"
builtin_name builtins.ToNumber = codes "tonumber"
builtin_name builtins.ToEntries = codes "to_entries"
builtin_name builtins.FromEntries = codes "from_entries"
builtin_name builtins.WithEntries = codes "with_entries"
builtin_name builtins.Sort = codes "sort"
builtin_name builtins.SortBy = codes "sort_by"
builtin_name builtins.Unique = codes "unique"
builtin_name builtins.Min = codes "min"
builtin_name builtins.Max = codes "max"
builtin_name builtins.Reverse = codes "reverse"
builtin_name builtins.Join = codes "join"
builtin_name builtins.Split = codes "split"
builtin_name builtins.StartsWith = codes "startswith"
builtin_name builtins.EndsWith = codes "endswith"
builtin_name builtins.AsciiDowncase = codes "ascii_downcase"
builtin_name builtins.AsciiUpcase = codes "ascii_upcase"
builtin_name builtins.RangeTo = codes "range"
builtin_name builtins.RangeFrom = codes "range"
builtin_name builtins.First = codes "first"
builtin_name builtins.Last = codes "last"
builtin_name builtins.FirstOf = codes "first"

-- how many arguments it has
abbrev pub arity : Builtin → ℕ
arity builtins.Length = 0
arity builtins.Keys = 0
arity builtins.Has = 1
arity builtins.Add = 0
arity builtins.Any = 0
arity builtins.All = 0
arity builtins.AnyOf = 1
arity builtins.AllOf = 1
arity builtins.Map = 1
arity builtins.Select = 1
arity builtins.Empty = 0
arity builtins.Not = 0
arity builtins.Type = 0
arity builtins.Error = 0
arity builtins.ErrorWith = 1
arity builtins.ToString = 0
arity builtins.ToJson = 0
arity builtins.ToNumber = 0
arity builtins.ToEntries = 0
arity builtins.FromEntries = 0
arity builtins.WithEntries = 1
arity builtins.Sort = 0
arity builtins.SortBy = 1
arity builtins.Unique = 0
arity builtins.Min = 0
arity builtins.Max = 0
arity builtins.Reverse = 0
arity builtins.Join = 1
arity builtins.Split = 1
arity builtins.StartsWith = 1
arity builtins.EndsWith = 1
arity builtins.AsciiDowncase = 0
arity builtins.AsciiUpcase = 0
arity builtins.RangeTo = 1
arity builtins.RangeFrom = 2
arity builtins.First = 0
arity builtins.Last = 0
arity builtins.FirstOf = 1

-- each built-in once
abbrev pub all_builtins : List Builtin
all_builtins = builtins.Length ∷ builtins.Keys ∷ builtins.Has ∷ builtins.Add ∷ builtins.Any ∷ builtins.All ∷ builtins.AnyOf ∷ builtins.AllOf ∷ builtins.Map ∷ builtins.Select ∷ builtins.Empty ∷ builtins.Not ∷ builtins.Type ∷ builtins.Error ∷ builtins.ErrorWith ∷ builtins.ToString ∷ builtins.ToJson ∷ builtins.ToNumber ∷ builtins.ToEntries ∷ builtins.FromEntries ∷ builtins.WithEntries ∷ builtins.Sort ∷ builtins.SortBy ∷ builtins.Unique ∷ builtins.Min ∷ builtins.Max ∷ builtins.Reverse ∷ builtins.Join ∷ builtins.Split ∷ builtins.StartsWith ∷ builtins.EndsWith ∷ builtins.AsciiDowncase ∷ builtins.AsciiUpcase ∷ builtins.RangeTo ∷ builtins.RangeFrom ∷ builtins.First ∷ builtins.Last ∷ builtins.FirstOf ∷ []

-- whether a built-in has this name and number of arguments
abbrev pub is_of : Builtin → List ℕ → ℕ → Bool
is_of b name n = (arity b == n) && pointwise ◌==◌ (builtin_name b) name

-- the first of these with this name and number of arguments
abbrev pub first_of : List Builtin → List ℕ → ℕ → Option Builtin
first_of [] name n = None
first_of (b ∷ bs) name n = if is_of b name n then Some b else first_of bs name n

-- the built-in of this name and number of arguments
unfoldable pub builtin_of : List ℕ → ℕ → Option Builtin
builtin_of name n = first_of all_builtins name n
