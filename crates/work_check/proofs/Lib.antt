mod CountLemmas
mod Crossing
mod LinesLemmas
mod ListedShares
mod SarifTexts
