-- Packs by names: looking one up, another pack under a name, and a name that is new, among the
-- strings that a server keeps.
use Rattle.std.proofs.Common.{◌≡◌, ◌+◌, Bool, true, false, cond, List, [], ◌∷◌, ◌++◌, length}
use Rattle.std.proofs.Common.{Option, Some, None, refl, sym, ap, ◌∙◌, ℕ, arith, is_some, option_map}
use Rattle.std.proofs.Common.{unwrap_or, Bor}
use Rattle.std.specs.Option.{option_copied}
use Rattle.indexmap.specs.IndexMap.{insert_entry}
use Rattle.indexmap.proofs.MapLemmas.{absent_from_lookup, insert_entry-absent}
use Rattle.std.proofs.lemmas.Bool.Decides.{nat_tests}
use Rattle.std.specs.Ordering.{eq_by_cmp}
use Rattle.std.proofs.lemmas.Cmp.{nat_list_cmp_total}
use Rattle.std.proofs.lemmas.Map.Text.{is_eq-slice_cmp}
use Rattle.std.specs.FinMap.{FinMap, find, get, get-from_entries, get-insert, insert, same_map}
use Rattle.std.specs.FinMap.{slice_cmp-IsAntisymmetric, nat_cmp-IsAntisymmetric, IsAntisymmetric}
use Rattle.std.specs.FinMap.{get-empty, len, len-empty, len-insert}
use Rattle.std.specs.List.{AllByRecursion, IsDistinct}
use Rattle.std.proofs.lemmas.Map.Keys.{IsDistinct-head, IsDistinct-tail}
use Rattle.std.specs.Map.{keys_of, lookup, set_value}
use Rattle.std.specs.Str.{bytes_eq}
use Rattle.std.specs.declared.alloc.Global.{Global}
use Rattle.std.specs.declared.string.String.{String}
use Rattle.std.specs.String.{string_bytes, string_eq}
use Rattle.std.proofs.lemmas.Slice.Eq.{bytes_eq-Decides}
use Rattle.mc_windows.specs.Pack.{PackValue}
use Rattle.mc_model.specs.Maps.{modify, name_cmp, with_value}
use Rattle.mc_play.specs.Named.{named, packs_of}

abbrev Entries : Type 0
Entries = List (String Global × PackValue)

-- a scan by a name is that of the names alone
scanned : (name : List ℕ) (es : Entries) →
    lookup (λ (k : String Global). bytes_eq name (string_bytes k)) es
    ≡ find name_cmp name (named es)
scanned name [] = refl
scanned name (e ∷ es) = λ i. cond (sym (is_eq-slice_cmp name (string_bytes e.0)) i) (Some e.1)
    (scanned name es i)

-- what is looked up by a name is the pack of that name
pub looked_up : (name : List ℕ) (es : Entries) →
    lookup (λ (k : String Global). bytes_eq name (string_bytes k)) es ≡ get (packs_of es) name
looked_up name es = scanned name es ∙ sym (get-from_entries nat_list_cmp_total (named es) name)

-- ---- how many there are

-- a string that is apart from others has a name that is none of theirs
pub none_there : (k : String Global) (es : Entries) →
    AllByRecursion (λ y. string_eq k y ≡ false) (keys_of es) →
    get (packs_of es) (string_bytes k) ≡ None
none_there k es apart = sym (looked_up (string_bytes k) es) ∙ absent es apart
  where
    absent : (es : Entries) → AllByRecursion (λ y. string_eq k y ≡ false) (keys_of es) →
        lookup (λ (y : String Global). bytes_eq (string_bytes k) (string_bytes y)) es ≡ None
    absent [] a = refl
    absent (e ∷ es) a = grind (arith, absent es a.1, a.0)

pub counted : (es : Entries) → IsDistinct string_eq (keys_of es) → length es ≡ len (packs_of es)
counted [] apart = sym (len-empty name_cmp PackValue)
counted (e ∷ es) apart =
    let new : get (packs_of es) (string_bytes e.0) ≡ None =
    none_there e.0 es (IsDistinct-head string_eq e.0 (keys_of es) apart) in
    let more = len-insert nat_list_cmp_total (packs_of es) (string_bytes e.0) e.1
    ∙ ap (λ (o : Option PackValue). cond (is_some o) (len (packs_of es)) (len (packs_of es) + 1))
    new in
    let rest = counted es (IsDistinct-tail string_eq e.0 (keys_of es) apart) in
    omega (arith, more, rest)

-- ---- another pack under a name

names_exact : IsAntisymmetric name_cmp
names_exact = slice_cmp-IsAntisymmetric nat_cmp-IsAntisymmetric

-- whether two names are one, as the order of names has it
same_name : (q name : List ℕ) → eq_by_cmp name_cmp q name ≡ bytes_eq q name
same_name q name = is_eq-slice_cmp q name

-- what is looked up where the pack of a name is another, if it has one
modified : (name q : List ℕ) (pack : PackValue) (m : FinMap name_cmp PackValue) →
    get (modify name (λ (old : PackValue). pack) m) q
    ≡ cond (bytes_eq q name) (option_map (λ (old : PackValue). pack) (get m name)) (get m q)
modified name q pack m = go (get m name) refl
  where
    go : (o : Option PackValue) → get m name ≡ o →
        get (with_value m name (option_map (λ (old : PackValue). pack) o)) q
        ≡ cond (bytes_eq q name) (option_map (λ (old : PackValue). pack) o) (get m q)
    go None is = grind (arith, nat_tests, is, bytes_eq-Decides q name)
    go (Some x) is = grind (
      arith,
      nat_tests,
      is,
      get-insert nat_list_cmp_total m name pack q,
      same_name q name,
    )

-- a value that is written under a name is its pack, and nothing is where the name is not there
pub written : (name : List ℕ) (pack : PackValue) (es : Entries) →
    packs_of (set_value (λ (k : String Global). bytes_eq name (string_bytes k)) es pack)
    ≡ modify name (λ (old : PackValue). pack) (packs_of es)
written name pack [] = same_map nat_list_cmp_total names_exact _ _ (λ q. grind (
  arith,
  get-empty {X = PackValue} name_cmp q,
  get-empty {X = PackValue} name_cmp name,
))
written name pack (e ∷ es) = step (written name pack es) (bytes_eq name (string_bytes e.0)) refl
  where
    step : packs_of (set_value (λ (k : String Global). bytes_eq name (string_bytes k)) es pack)
        ≡ modify name (λ (old : PackValue). pack) (packs_of es) → (t : Bool) →
        bytes_eq name (string_bytes e.0) ≡ t →
        packs_of (cond t ((e.0, pack) ∷ es)
        (e ∷ set_value (λ (k : String Global). bytes_eq name (string_bytes k)) es pack))
        ≡ modify name (λ (old : PackValue). pack) (insert (packs_of es) (string_bytes e.0) e.1)
    step rest true is = same_map nat_list_cmp_total names_exact _ _ (λ q. grind (
      arith,
      nat_tests,
      is,
      modified name q pack (insert (packs_of es) (string_bytes e.0) e.1),
      get-insert nat_list_cmp_total (packs_of es) (string_bytes e.0) e.1 q,
      get-insert nat_list_cmp_total (packs_of es) (string_bytes e.0) e.1 name,
      get-insert nat_list_cmp_total (packs_of es) (string_bytes e.0) pack q,
      same_name,
      bytes_eq-Decides,
    ))
    step rest false is = same_map nat_list_cmp_total names_exact _ _ (λ q. grind (
      arith,
      nat_tests,
      is,
      modified name q pack (insert (packs_of es) (string_bytes e.0) e.1),
      modified name q pack (packs_of es),
      get-insert nat_list_cmp_total (packs_of es) (string_bytes e.0) e.1 q,
      get-insert nat_list_cmp_total (packs_of es) (string_bytes e.0) e.1 name,
      get-insert nat_list_cmp_total (modify name (λ (old : PackValue). pack) (packs_of es))
          (string_bytes e.0) e.1 q,
      ap (λ (m : FinMap name_cmp PackValue). get (insert m (string_bytes e.0) e.1) q)
          rest,
      same_name,
      bytes_eq-Decides,
    ))

-- nothing is another under a name that is not there
pub unwritten : (name : List ℕ) (pack : PackValue) (m : FinMap name_cmp PackValue) →
    get m name ≡ None → modify name (λ (old : PackValue). pack) m ≡ m
unwritten name pack m none =
    ap (λ (o : Option PackValue). with_value m name (option_map (λ (old : PackValue). pack) o)) none

-- ---- a name that is new

-- a pack that is put under its own name again changes nothing
pub again : (name : List ℕ) (kit : PackValue) (m : FinMap name_cmp PackValue) →
    is_some (get m name) ≡ true → m ≡ insert m name (unwrap_or (get m name) kit)
again name kit m there = same_map nat_list_cmp_total names_exact _ _ (λ q. grind (
  arith,
  nat_tests,
  get-insert nat_list_cmp_total m name (unwrap_or (get m name) kit) q,
  same_name q name,
  bytes_eq-Decides q name,
  there,
))

-- one more string, with a name that is none of theirs, is one more name
pub one_more : (k : String Global) (kit : PackValue) (es : Entries) →
    get (packs_of es) (string_bytes k) ≡ None →
    packs_of (es ++ (k, kit) ∷ []) ≡ insert (packs_of es) (string_bytes k) kit
one_more k kit [] none = refl
one_more k kit (e ∷ es) none = same_map nat_list_cmp_total names_exact _ _ (λ q. grind (
  arith,
  nat_tests,
  one_more k kit es,
  get-insert nat_list_cmp_total (packs_of es) (string_bytes e.0) e.1 q,
  get-insert nat_list_cmp_total (packs_of es) (string_bytes e.0) e.1 (string_bytes k),
  get-insert nat_list_cmp_total (packs_of es) (string_bytes k) kit q,
  get-insert nat_list_cmp_total (insert (packs_of es) (string_bytes k) kit) (string_bytes e.0) e.1
      q,
  get-insert nat_list_cmp_total (insert (packs_of es) (string_bytes e.0) e.1) (string_bytes k) kit
      q,
  same_name,
  bytes_eq-Decides,
  none,
))

-- whether something is lent
pub lent_some : {A : Type 0} (o : Option (Bor A)) (looked : Option A) (b : Bool) →
    option_copied o ≡ looked → b ≡ is_some o → b ≡ true → is_some looked ≡ true
lent_some None looked b is test on = absurd cc
lent_some (Some x) looked b is test on = sym (ap is_some is)

pub lent_none : {A : Type 0} (o : Option (Bor A)) (looked : Option A) (b : Bool) →
    option_copied o ≡ looked → b ≡ is_some o → b ≡ false → looked ≡ None
lent_none None looked b is test off = sym is
lent_none (Some x) looked b is test off = absurd cc

-- a string that is new goes last
pub put_last : (kit : PackValue) (es : Entries) (k : String Global) →
    get (packs_of es) (string_bytes k) ≡ None →
    insert_entry string_eq es k kit ≡ es ++ (k, kit) ∷ []
put_last kit es k none = grind (
  arith,
  insert_entry-absent string_eq k kit es,
  absent_from_lookup (string_eq k) es,
  looked_up (string_bytes k) es,
  none,
)

-- a name that comes for the first time gets what it is given
pub admitted : (name : List ℕ) (made kit : PackValue) (es more : Entries)
    (packs : FinMap name_cmp PackValue) (k : String Global) → packs_of es ≡ packs →
    string_bytes k ≡ name → get packs name ≡ None → made ≡ kit →
    more ≡ insert_entry string_eq es k made →
    packs_of more ≡ insert packs name (unwrap_or (get packs name) kit)
admitted name made kit es more packs k view is none same put =
    let there : get (packs_of es) (string_bytes k) ≡ None =
    (λ i. get (view i) (is i)) ∙ none in
    ap packs_of (put ∙ put_last made es k there) ∙ one_more k made es there
    ∙ (λ i. insert (view i) (is i) (same i))
    ∙ ap (λ (o : Option PackValue). insert packs name (unwrap_or o kit)) (sym none)
