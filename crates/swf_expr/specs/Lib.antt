pub mod Builtin
pub mod Name
pub mod Expr
pub mod ExprNode
pub mod Constant
pub mod ExprCode
pub mod ExprFalls
