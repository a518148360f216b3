-- What is shown of the definition: the guarantee, the premise's needs and the limits of sections.
pub mod Tests
pub mod Limits
pub mod PremiseLaws
pub mod Guarantee
