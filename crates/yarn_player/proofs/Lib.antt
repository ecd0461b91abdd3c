-- The lemmas of the proofs.
pub mod FilledLemmas
pub mod Shown
pub mod StepLemmas
