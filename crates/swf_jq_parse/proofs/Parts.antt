-- The words of keywords.
use Rattle.std.proofs.Common.{◌≡◌, chars}
use Rattle.swf_text.proofs.SameLemmas.{chars_ascii}
use Rattle.swf_jq_tokens.proofs.Keywords.{ascii_keyword}
use Rattle.swf_jq_tokens.specs.Words.{keyword_text}
use Rattle.swf_jq_tokens.specs.declared.token.Keyword.{Keyword}

-- the characters of a keyword's word
pub keyword_chars : (k : Keyword) → chars (keyword_text k) ≡ keyword_text k
keyword_chars k = chars_ascii (keyword_text k) (ascii_keyword k)
