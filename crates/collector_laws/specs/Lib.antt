pub mod TextLaws
pub mod WorkLaws
