-- From the scheme's list to bytes and back. Each name has a word (Layouts), the list is as long as counted (Sizes) and its operands are
-- words (Fits); coded operands are decoded again (RoundTrip) and as short as can be (Shortest). Realise has the whole code, Bytes what
-- holds in the middle of an instruction.
pub mod Layouts
pub mod Sizes
pub mod Fits
pub mod RoundTrip
pub mod Shortest
pub mod Realise
pub mod Bytes
