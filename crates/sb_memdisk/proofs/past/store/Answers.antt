use Rattle.std.proofs.Common.{rules, ◌≡◌, ◌∷◌, ◌++◌, [], List, ℕ, length, take, drop, refl, sym, ◌∙◌, ap, subst, arith, length-drop}
use Rattle.std.proofs.lemmas.List.{length-take}
use Rattle.sb_bytes.specs.Bytes.{splice}
use Rattle.sb_memdisk.proofs.PastLemmas.{splice-undone, story_after-noted}
use Rattle.sb_memdisk.proofs.past.store.Goals as goal

pub returns-clause-stored : goal.returns-clause-stored
returns-clause-stored c =
    let entry = c.args.entry in
    let count = length c.args.written.now in
    let pushed : c.push.new.self.items ≡ c.args.past.now.items ++ entry ∷ [] = search rules in
    let stored : c.splice.new.bytes ≡ splice entry.at (take c.args.kept c.args.written.now) c.args.bytes.now = search rules in
    let replaced : entry.replaced.items ≡ take count (drop entry.at c.args.bytes.now) = c.requires.replaced in
    let size : length entry.replaced.items ≡ count = ap (λ (l : List ℕ). length l) replaced ∙ omega (arith, c.requires.at, length-take count (drop entry.at c.args.bytes.now), length-drop entry.at c.args.bytes.now) in
    let undone = splice-undone entry.at count (take c.args.kept c.args.written.now) c.args.bytes.now (omega (arith, length-take c.args.kept c.args.written.now)) c.requires.at in
    record {
      bytes = stored;
      story = story_after-noted entry.lull c.args.past.now.items c.push.new.self.items entry count c.args.bytes.now c.splice.new.bytes pushed refl size
          (subst (λ (l : List ℕ). splice entry.at l c.splice.new.bytes ≡ c.args.bytes.now) (sym replaced) (ap (λ (l : List ℕ). splice entry.at (take count (drop entry.at c.args.bytes.now)) l) stored ∙ undone));
    }
