-- What a task is, and a list of named tasks (DSL 1.0.0, reference, "Task").
use Rattle.std.specs.Prelude.{◌+◌, ℕ, List, Bool, Option}
use Rattle.swf_expr.specs.Expr.{Tree}
use Rattle.swf_document.specs.Template.{Template}
use Rattle.swf_document.specs.declared.call.Callee.{Callee}
use Rattle.swf_document.specs.declared.common.Case.{Case}
use Rattle.swf_document.specs.declared.common.Common.{Common}
use Rattle.swf_document.specs.declared.error.ErrorFilter.{ErrorFilter}
use Rattle.swf_document.specs.declared.error.ErrorRef.{ErrorRef}
use Rattle.swf_document.specs.declared.event.ListenSpec.{ListenSpec}
use Rattle.swf_document.specs.declared.retry.RetryRef.{RetryRef}
use Rattle.swf_document.specs.declared.run.RunSpec.{RunSpec}

-- over what a `for` goes, and the variables of its rounds
pub record Loop : Type 0 where
  pub each : List ℕ
  pub items : Tree
  pub at : List ℕ
  pub guard : Option Tree

-- what a `try` catches, and when it tries again
pub record Catch : Type 0 where
  pub errors : ErrorFilter
  pub name : List ℕ
  pub cond : Option Tree
  pub except : Option Tree
  pub retry : Option RetryRef

mutual
  pub data Tasks : Type 0 where
    no_tasks : Tasks
    named : List ℕ → Task → Tasks → Tasks

  pub data Task : Type 0 where
    task : Common → Kind → Task

  pub data Kind : Type 0 where
    call : Callee → Kind
    do_all : Tasks → Kind
    emit : Template → Kind
    for : Loop → Tasks → Kind
    fork : Bool → Tasks → Kind
    listen : ListenSpec → Kind
    raise : ErrorRef → Kind
    run : RunSpec → Kind
    set : Template → Kind
    switch : List Case → Kind
    try : Catch → Tasks → Handler → Kind
    wait : ℕ → Kind

  pub data Handler : Type 0 where
    no_handler : Handler
    handler : Tasks → Handler

-- a number that is greater than those of the lists inside
abbrev mutual
  pub weight_tasks : Tasks → ℕ
  weight_tasks no_tasks = 0
  weight_tasks (named n t ts) = weight_task t + weight_tasks ts

  pub weight_task : Task → ℕ
  weight_task (task c k) = weight_kind k

  pub weight_kind : Kind → ℕ
  weight_kind (do_all ts) = 4 + weight_tasks ts
  weight_kind (for l ts) = 4 + weight_tasks ts
  weight_kind (fork c ts) = 4 + weight_tasks ts
  weight_kind (try c ts h) = 4 + weight_tasks ts + weight_handler h
  weight_kind k = 1

  pub weight_handler : Handler → ℕ
  weight_handler no_handler = 0
  weight_handler (handler ts) = 4 + weight_tasks ts

-- the same of a list by itself
abbrev pub weight : Tasks → ℕ
weight ts = 2 + weight_tasks ts
