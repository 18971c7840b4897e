-- Lemmas, and the theorems that rest on definitions of specs/.
pub mod DeskOrderProof
pub mod DeskTheorem
pub mod CasesOfDesk
