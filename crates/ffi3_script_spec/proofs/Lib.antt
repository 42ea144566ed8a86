pub mod Readings
mod RowForms
mod LanguageRows
mod MoveRows
mod ValueRows
mod MeaningRows
mod ComputedValueRows
mod TypedRows
mod WideRows
mod ArrayRows
mod DeclarationRows
pub mod Decimals
mod MadeRows
pub mod Tests
pub mod RightTypes
pub mod Fits
pub mod ReadParts
pub mod Signatures
pub mod TypedValues
pub mod WellTyped
pub mod BodyRules
pub mod Natives
pub mod Made
pub mod MadeRuns
