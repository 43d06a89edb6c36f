-- Laws of all bytes that are left.
use Rattle.std.specs.Prelude.{ℕ, List, [], length, Ok, refl}
use Rattle.std.proofs.Common.{sym, ap, arith}
use Rattle.std.proofs.lemmas.List.{append-nil}
use Rattle.mc_bytes.specs.declared.fault.Stop.{Stop}
use Rattle.mc_bytes.specs.Reading.{IsBytes}
use Rattle.mc_bytes.specs.Format.{IsFound, IsOnly, IsBounded, Nothing}
use Rattle.mc_bytes.specs.CombineLaws.{ok_is, Found-is}
use Rattle.mc_bytes.specs.RestBytes.{rest_spells, rest_read}

no_bytes : IsBytes []
no_bytes i = omega arith

pub rest_found : IsFound rest_spells rest_read
rest_found bytes x fits e =
    Found-is rest_spells bytes (bytes, []) x (ok_is Stop _ _ e) (record {
      front = bytes;
      parts = sym (append-nil bytes);
      spelled = refl;
      rest_fits = no_bytes;
    })

pub rest_only : IsOnly Nothing rest_spells rest_read
rest_only value front rest ends s =
    rw (ends, s) (ap (λ (t : List ℕ). Ok (t, [])) (append-nil value))

pub rest_bounded : IsBounded rest_spells length
rest_bounded value bytes s = rw s (omega arith)
