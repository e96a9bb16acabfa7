-- What waking comes to: pieces of the model's actions that are functions, and what each promises (Wakes).
pub mod Wakes
