-- Whole has which words of a lent memory are the machine's, Laws how the actions of such functions go together, Talking the same where one
-- may communicate, Looks what a look finds.
pub mod Whole
pub mod Laws
pub mod Looks
pub mod Talking
