use Rattle.swf_jq_tokens.proofs.TokenSteps.{lex-end, lex-blank, lex-token, lex-behind, lex-fault}
use Rattle.swf_jq_tokens.proofs.laws.lexer_laws.Goals as goal

pub returns : goal.returns
returns c = (lex-end, lex-blank, lex-token, lex-behind, lex-fault)
