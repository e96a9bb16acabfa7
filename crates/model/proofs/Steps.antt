-- One byte is a part of a run (OneByte): a file for what each significant instruction does, then all of them (Instructions). Quiets and
-- Basics have those that bring no step and the simple ones; Channels and Meets what IN, OUTWORD and an ALT have in common. A PAR: Forks
-- (its processes), ParStarts and Startp (its start), BranchEnds and Endp (its end). An ALT: Enabling and Disabling, with time guards
-- TimedAlt (TALT, ENBT), TimedWait (TALTWT) and TimedDisable (DIST), together AltPoints. Sleep is how TIN and TALTWT join the timer queue,
-- Altend the last byte of ALTEND, behind which less need be known of times.
pub mod Quiets
pub mod Advance
pub mod Basics
pub mod Times
pub mod Sleep
pub mod Tin
pub mod Channels
pub mod Meets
pub mod In
pub mod Outword
pub mod Initialise
pub mod Enabling
pub mod TimedAlt
pub mod TimedWait
pub mod Disabling
pub mod TimedDisable
pub mod AltPoints
pub mod Forks
pub mod ParStarts
pub mod Startp
pub mod BranchEnds
pub mod Endp
pub mod Instructions
pub mod OneByte
pub mod Altend
