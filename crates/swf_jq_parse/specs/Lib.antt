pub mod Parts
pub mod Joints
pub mod Grammar
pub mod Machine
pub mod GrammarLaws
pub mod Parse
pub mod ExpressionText
