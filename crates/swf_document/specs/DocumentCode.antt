-- Codes for keys and documents, by which a ghost name tells them apart.
use Rattle.std.specs.Coded.{Coded, codes}
use Rattle.swf_expr.specs.ExprCode.{tree_code}
use Rattle.swf_document.specs.TaskCode.{tasks_code}
use Rattle.swf_document.specs.TemplateCode.{template_code}
use Rattle.swf_document.specs.declared.document.DocKey.{DocKey}
use Rattle.swf_document.specs.declared.document.Document.{Document}

pub key_code : Coded DocKey
key_code = hlevel codes

pub document_code : Coded Document
document_code = hlevel (codes, tree_code, template_code, tasks_code)
