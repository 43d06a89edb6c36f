use Rattle.std.proofs.Common.{◌≡◌, List, ℕ, ◌++◌, Ok}
use Rattle.mc_bytes.specs.Format.{Anything}
use Rattle.mc_packets.specs.declared.meta.MetaEntry.{MetaEntry}
use Rattle.mc_packets.specs.Metadata.{SpellsMeta, FitsMeta, meta_read, meta_spelling, metadata}
use Rattle.mc_packets.proofs.Begun.{ok_as}
use Rattle.mc_packets.proofs.metadata.write_meta.Goals as goal

fit : (entries : List MetaEntry) (bytes : List ℕ) → SpellsMeta entries bytes → FitsMeta entries
fit = (metadata {Rest = Anything}).fit

spelled : (entries : List MetaEntry) → FitsMeta entries → SpellsMeta entries (meta_spelling entries)
spelled = (metadata {Rest = Anything}).spelled

again : (entries : List MetaEntry) → FitsMeta entries → (rest : List ℕ) →
    meta_read (meta_spelling entries ++ rest) ≡ Ok (entries, rest)
again entries fits rest = (metadata {Rest = Anything}).only entries (meta_spelling entries) rest tt
    (spelled entries fits)

pub put_metas-written-requires : goal.put_metas-written-requires
put_metas-written-requires c = fit c.args.value.now c.requires.0 c.requires.1

pub returns-then-is_err-clause-spelled : goal.returns-then-is_err-clause-spelled
returns-then-is_err-clause-spelled c =
    spelled c.args.value.now (fit c.args.value.now c.requires.0 c.requires.1)

pub returns-then-is_err-clause-again : goal.returns-then-is_err-clause-again
returns-then-is_err-clause-again c =
    again c.args.value.now (fit c.args.value.now c.requires.0 c.requires.1)

pub returns-else-is_err-clause-spelled : goal.returns-else-is_err-clause-spelled
returns-else-is_err-clause-spelled c =
    spelled c.args.value.now (fit c.args.value.now c.requires.0 c.requires.1)

pub returns-else-is_err-clause-again : goal.returns-else-is_err-clause-again
returns-else-is_err-clause-again c =
    again c.args.value.now (fit c.args.value.now c.requires.0 c.requires.1)

pub returns-else-is_err-clause-ok : goal.returns-else-is_err-clause-ok
returns-else-is_err-clause-ok c = ok_as c.put_metas-written.result c.put_metas-written.new.out.items
    _ _ ((metadata {Rest = Anything}).appended c.args.value.now c.args.out.now.items)
    c.put_metas-written.ensures.ok
