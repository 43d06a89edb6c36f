mod NumberFacts
mod ShiftFacts
mod PlanFacts
mod KeptFacts
