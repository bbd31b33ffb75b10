-- The names of the built-ins are ASCII.
use Rattle.std.proofs.Common.{◌≡◌, true, refl}
use Rattle.swf_expr.specs.Builtin.{builtin_name}
use Rattle.swf_text.specs.Same.{is_ascii}
use Rattle.swf_expr.specs.declared.builtin.Builtin.{Builtin}
use Rattle.swf_expr.specs.declared.builtin.Builtin.TheVariants as builtins

pub ascii_name : (b : Builtin) → is_ascii (builtin_name b) ≡ true
ascii_name builtins.Length = refl
ascii_name builtins.Keys = refl
ascii_name builtins.Has = refl
ascii_name builtins.Add = refl
ascii_name builtins.Any = refl
ascii_name builtins.All = refl
ascii_name builtins.AnyOf = refl
ascii_name builtins.AllOf = refl
ascii_name builtins.Map = refl
ascii_name builtins.Select = refl
ascii_name builtins.Empty = refl
ascii_name builtins.Not = refl
ascii_name builtins.Type = refl
ascii_name builtins.Error = refl
ascii_name builtins.ErrorWith = refl
ascii_name builtins.ToString = refl
ascii_name builtins.ToJson = refl
ascii_name builtins.ToNumber = refl
ascii_name builtins.ToEntries = refl
ascii_name builtins.FromEntries = refl
ascii_name builtins.WithEntries = refl
ascii_name builtins.Sort = refl
ascii_name builtins.SortBy = refl
ascii_name builtins.Unique = refl
ascii_name builtins.Min = refl
ascii_name builtins.Max = refl
ascii_name builtins.Reverse = refl
ascii_name builtins.Join = refl
ascii_name builtins.Split = refl
ascii_name builtins.StartsWith = refl
ascii_name builtins.EndsWith = refl
ascii_name builtins.AsciiDowncase = refl
ascii_name builtins.AsciiUpcase = refl
ascii_name builtins.RangeTo = refl
ascii_name builtins.RangeFrom = refl
ascii_name builtins.First = refl
ascii_name builtins.Last = refl
ascii_name builtins.FirstOf = refl
