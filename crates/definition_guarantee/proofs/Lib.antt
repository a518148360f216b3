-- The guarantee, the checker's conditions and the premise: to be read are Guarantee, CheckerConditions and PremiseLaws;
-- the others hold their lemmas.
pub mod Tests
-- words read back
pub mod Words
-- sizes: setting one, a rule, the forward pass, the end
pub mod Growth
pub mod Rules
pub mod Forward
pub mod Finish
pub mod FinalSizes
-- layout, labels and Builds through the passes and the end
pub mod Layouts
pub mod WholeList
pub mod Ending
-- the section that is read, and the walk over it
pub mod Readings
pub mod Entries
pub mod Globals
pub mod Limits
pub mod Kept
pub mod Pushes
pub mod Shapes
pub mod KeptExpressions
pub mod KeptLabels
pub mod KeptStatements
pub mod Outcomes
-- the theorems
pub mod Guarantee
pub mod RightAccepted
pub mod CheckerConditions
pub mod PremiseLaws
