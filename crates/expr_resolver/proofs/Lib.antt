pub mod ExprLaws
