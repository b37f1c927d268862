pub mod Sides
pub mod Tests
pub mod Machine
pub mod Sign
pub mod SignLaws
