mod LineLemmas
pub mod SarifLemmas
