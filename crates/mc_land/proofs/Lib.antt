pub mod Orders
mod ChestFacts
mod EditsFacts
mod LandFacts
mod GrownFacts
mod SumFacts
mod ShedFacts
mod TouchedFacts
mod TouchFacts
mod KeptLandFacts
mod PlaceFacts
mod LookFacts
mod ChangeFacts
mod SetFacts
mod PutFacts
mod UpkeepFacts
