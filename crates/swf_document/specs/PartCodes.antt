-- Codes for the parts of tasks and documents, by which a ghost name tells them apart.
use Rattle.std.specs.Coded.{Coded, codes}
use Rattle.swf_expr.specs.ExprCode.{tree_code}
use Rattle.swf_document.specs.Task.{Loop, Catch}
use Rattle.swf_document.specs.TemplateCode.{template_code}
use Rattle.swf_document.specs.declared.call.Callee.{Callee}
use Rattle.swf_document.specs.declared.common.Case.{Case}
use Rattle.swf_document.specs.declared.common.Common.{Common}
use Rattle.swf_document.specs.declared.error.ErrorRef.{ErrorRef}
use Rattle.swf_document.specs.declared.event.ListenSpec.{ListenSpec}
use Rattle.swf_document.specs.declared.run.RunSpec.{RunSpec}

pub common_code : Coded Common
common_code = hlevel (codes, tree_code, template_code)

pub case_code : Coded Case
case_code = hlevel (codes, tree_code)

pub callee_code : Coded Callee
callee_code = hlevel (codes, tree_code, template_code)

pub listen_code : Coded ListenSpec
listen_code = hlevel (codes, tree_code, template_code)

pub error_ref_code : Coded ErrorRef
error_ref_code = hlevel (codes, template_code)

pub run_code : Coded RunSpec
run_code = hlevel (codes, template_code)

pub loop_code : Coded Loop
loop_code = hlevel (codes, tree_code)

pub catch_code : Coded Catch
catch_code = hlevel (codes, tree_code)
