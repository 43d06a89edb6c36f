-- Two worlds that are the same but for one connection stay so, whatever others do in both.
use Rattle.std.proofs.Common.{◌≡◌, ◌≢◌, ℕ, Bool, true, false, Option, Some, None, refl, sym, subst}
use Rattle.std.proofs.Common.{ap, ◌∙◌, inl, inr}
use Rattle.std.specs.Prelude.{unwrap_or, if◌then◌else◌}
use Rattle.std.proofs.lemmas.Bool.{cases_eq}
use Rattle.std.specs.Ordering.{nat_cmp}
use Rattle.std.specs.FinMap.{FinMap, get, insert, remove}
use Rattle.mc_model.specs.Step.{is_new, forget, join, joining, is_crowded}
use Rattle.mc_model.specs.Link.{Link, is_done}
use Rattle.mc_model.specs.World.{Seat, Turn, World, on_link, on_seat, seat_of, seated, silent}
use Rattle.mc_model.specs.World.{nothing_unread}
use Rattle.mc_model.specs.Apart.{AlikeBut, IsShut, SameBut}
use Rattle.mc_model.proofs.Maps.Lookups.{gone_other, gone_same, put_other, put_same}

same_alike : (k : ℕ) (w v : World) → SameBut k w v → AlikeBut k (silent w) (silent v)
same_alike k w v a = record { worlds = a; hands = λ j ne. refl }

-- ---- maps that are the same but for a key

module _ {X : Type 0} (k j : ℕ) (m n : FinMap nat_cmp X)
    (alike : (i : ℕ) → i ≢ k → get m i ≡ get n i) where
  put_alike : (x y : X) → x ≡ y → (i : ℕ) → i ≢ k → get (insert m j x) i ≡ get (insert n j y) i
  put_alike x y same i away = elim (cases_eq i j) [
    | inl is ↦ rw is (put_same m j x ∙ ap Some same ∙ sym (put_same n j y))
    | inr other ↦ put_other m j i x other ∙ alike i away ∙ sym (put_other n j i y other)
  ]

  gone_alike : (i : ℕ) → i ≢ k → get (remove m j) i ≡ get (remove n j) i
  gone_alike i away = elim (cases_eq i j) [
    | inl is ↦ rw is (gone_same m j ∙ sym (gone_same n j))
    | inr other ↦ gone_other m j i other ∙ alike i away ∙ sym (gone_other n j i other)
  ]

-- ---- a step of another connection, whatever it does

module _ (k j : ℕ) (w v : World) (ne : j ≢ k) (a : SameBut k w v) where
  -- its seat is the same
  seat_same : (l : Link) → seat_of w j l ≡ seat_of v j l
  seat_same l = λ i. record {
    game = a.game i;
    link = l;
    unread = unwrap_or (a.unread j ne i) nothing_unread;
  }

  put_apart : (t : Turn) → AlikeBut k (seated w j t) (seated v j t)
  put_apart t =
      let far : k ≢ j = λ same. ne (sym same) in
      record {
        worlds = record {
          game = refl;
          plans = a.plans;
          last = a.last;
          links = put_alike k j w.links v.links a.links t.seat.link t.seat.link refl;
          unread = put_alike k j w.unread v.unread a.unread t.seat.unread t.seat.unread refl;
          shown = a.shown;
          shut = subst IsShut (sym (put_other w.links j k t.seat.link far)) a.shut;
          shut_too = subst IsShut (sym (put_other v.links j k t.seat.link far)) a.shut_too;
        };
        hands = λ i away. refl;
      }

  pub seat_apart : (f : Seat → Turn) → AlikeBut k (on_seat w j f) (on_seat v j f)
  seat_apart f = subst (λ (o : Option Link). AlikeBut k (on_link w j f o) (on_seat v j f))
      (sym (a.links j ne)) (at_link (get v.links j))
    where
      at_link : (o : Option Link) → AlikeBut k (on_link w j f o) (on_link v j f o)
      at_link None = same_alike k w v a
      at_link (Some l) = subst (λ (s : Seat). AlikeBut k (seated w j (f (seat_of w j l)))
          (seated v j (f s))) (seat_same l) (put_apart (f (seat_of w j l)))

  -- it joins, where none is crowded out
  pub join_apart : is_crowded w ≡ false → is_crowded v ≡ false →
      AlikeBut k (silent (join w j)) (silent (join v j))
  join_apart few few_too =
      let far : k ≢ j = λ same. ne (sym same) in
      let alike : joining w ≡ joining v = rw (few, few_too) refl in
      subst (λ (b : Bool). AlikeBut k (silent (join w j)) (silent (if b
      then record v { last = Some j; links = insert v.links j (joining v) } else v)))
      (ap (is_new j) a.last) (at_new (is_new j w.last) (record {
        game = a.game;
        plans = a.plans;
        last = refl;
        links = put_alike k j w.links v.links a.links (joining w) (joining v) alike;
        unread = a.unread;
        shown = a.shown;
        shut = subst IsShut (sym (put_other w.links j k (joining w) far)) a.shut;
        shut_too = subst IsShut (sym (put_other v.links j k (joining v) far)) a.shut_too;
      }))
    where
      at_new : (b : Bool) → SameBut k
          (record w { last = Some j; links = insert w.links j (joining w) })
          (record v { last = Some j; links = insert v.links j (joining v) }) →
          AlikeBut k
          (silent (if b then record w { last = Some j; links = insert w.links j (joining w) }
          else w))
          (silent (if b then record v { last = Some j; links = insert v.links j (joining v) }
          else v))
      at_new true same = same_alike k _ _ same
      at_new false same = same_alike k w v a

  -- it is forgotten
  pub forget_apart : AlikeBut k (silent (forget w j (get w.links j)))
      (silent (forget v j (get v.links j)))
  forget_apart = subst (λ (o : Option Link). AlikeBut k (silent (forget w j o))
      (silent (forget v j (get v.links j)))) (sym (a.links j ne)) (at_link (get v.links j))
    where
      less : SameBut k
          (record w {
            links = remove w.links j;
            unread = remove w.unread j;
            shown = remove w.shown j;
          })
          (record v {
            links = remove v.links j;
            unread = remove v.unread j;
            shown = remove v.shown j;
          })
      less = (let far : k ≢ j = λ same. ne (sym same) in record {
        game = a.game;
        plans = a.plans;
        last = a.last;
        links = gone_alike k j w.links v.links a.links;
        unread = gone_alike k j w.unread v.unread a.unread;
        shown = gone_alike k j w.shown v.shown a.shown;
        shut = subst IsShut (sym (gone_other w.links j k far)) a.shut;
        shut_too = subst IsShut (sym (gone_other v.links j k far)) a.shut_too;
      })

      at_link : (o : Option Link) → AlikeBut k (silent (forget w j o)) (silent (forget v j o))
      at_link None = same_alike k w v a
      at_link (Some l) = elim (is_done l) as (λ b. AlikeBut k
          (silent (if b then record w {
            links = remove w.links j;
            unread = remove w.unread j;
            shown = remove w.shown j;
          } else w))
          (silent (if b then record v {
            links = remove v.links j;
            unread = remove v.unread j;
            shown = remove v.shown j;
          } else v))) [
            | true ↦ same_alike k _ _ less
            | false ↦ same_alike k w v a
          ]
