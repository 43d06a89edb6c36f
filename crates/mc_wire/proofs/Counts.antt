use Rattle.std.proofs.Common.{ℕ, refl, inl, inr, arith}
use Rattle.mc_wire.specs.Count.{Rose, NeverFalls, StandsOrRises}

-- How counts compose over several calls.

pub NeverFalls-trans : (a b c : ℕ) → NeverFalls a b → NeverFalls b c → NeverFalls a c
NeverFalls-trans a b c first second = (omega arith, second.1)

pub Rose-NeverFalls : (a b c : ℕ) → Rose a b → NeverFalls b c → Rose a c
Rose-NeverFalls a b c (inl less) never = inl (omega arith)
Rose-NeverFalls a b c (inr end) never = inr (omega arith)

pub NeverFalls-Rose : (a b c : ℕ) → NeverFalls a b → Rose b c → Rose a c
NeverFalls-Rose a b c never (inl less) = inl (omega arith)
NeverFalls-Rose a b c never (inr end) = inr end

pub StandsOrRises-refl : (a : ℕ) → StandsOrRises a a
StandsOrRises-refl a = inl refl

pub StandsOrRises-NeverFalls : (a b c : ℕ) → StandsOrRises a b → NeverFalls b c → NeverFalls a c
StandsOrRises-NeverFalls a b c (inl same) never = (omega arith, never.1)
StandsOrRises-NeverFalls a b c (inr first) never = NeverFalls-trans a b c first never

pub StandsOrRises-trans : (a b c : ℕ) → StandsOrRises a b → StandsOrRises b c → StandsOrRises a c
StandsOrRises-trans a b c first (inl same) = rw same first
StandsOrRises-trans a b c first (inr never) = inr (StandsOrRises-NeverFalls a b c first never)

pub StandsOrRises-Rose : (a b c : ℕ) → StandsOrRises a b → Rose b c → Rose a c
StandsOrRises-Rose a b c (inl same) rose = rw (← same) rose
StandsOrRises-Rose a b c (inr never) rose = NeverFalls-Rose a b c never rose

pub Rose-StandsOrRises : (a b c : ℕ) → Rose a b → StandsOrRises b c → Rose a c
Rose-StandsOrRises a b c rose (inl same) = rw same rose
Rose-StandsOrRises a b c rose (inr never) = Rose-NeverFalls a b c rose never
