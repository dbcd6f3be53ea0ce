use Rattle.std.proofs.Common.{sym, ◌∙◌, ap, ◌≡◌, arith, ◌-◌, refl, ◌+◌, suc}
use Rattle.sb_bytes.specs.Field.{number_at}
use Rattle.sb_node.specs.Writes.{start_at}
use Rattle.sb_node.proofs.Runs.{is_formed, in_page, Runs-on, Runs-count, after_above}
use Rattle.sb_node.proofs.entries.start_of.Goals as goal

pub loop-entry-init : goal.loop-entry-init
loop-entry-init c =
    let e : number_at 2 c.args.page.now 2 - 0 ≡ number_at 2 c.args.page.now 2 = omega arith in
    let f : c.args.i - 0 ≡ c.args.i = omega arith in
    rw (e, f) (record { rest = refl; runs = (is_formed c.args.page.now c.requires.form).runs; low = omega arith })

pub after_of-at-requires-clause-within : goal.after_of-at-requires-clause-within
after_of-at-requires-clause-within c =
    (in_page c.args.page.now (number_at 2 c.args.page.now 2 - c.loop-entry._entry) (number_at 2 c.args.page.now 2 - (c.loop-entry._entry + 1)) c.loop-entry.at c.requires.form (omega arith) c.loop-entry.invariant.runs).low

pub after_of-at-requires-clause-low : goal.after_of-at-requires-clause-low
after_of-at-requires-clause-low c =
    (in_page c.args.page.now (number_at 2 c.args.page.now 2 - c.loop-entry._entry) (number_at 2 c.args.page.now 2 - (c.loop-entry._entry + 1)) c.loop-entry.at c.requires.form (omega arith) c.loop-entry.invariant.runs).short

pub loop-entry-preserved : goal.loop-entry-preserved
loop-entry-preserved c =
    let next : c.args.i - c.loop-entry._entry ≡ suc (c.args.i - (c.loop-entry._entry + 1)) = omega arith in
    rw c.after_of-at.ensures (record {
      rest = sym (ap (λ k. start_at c.args.page.now k c.loop-entry.at) next) ∙ c.loop-entry.invariant.rest;
      runs =
          Runs-on c.args.page.now (24 + number_at 2 c.args.page.now 4) (number_at 2 c.args.page.now 2 - c.loop-entry._entry) (number_at 2 c.args.page.now 2 - (c.loop-entry._entry + 1)) c.loop-entry.at (omega arith)
          c.loop-entry.invariant.runs;
      low = omega (arith, after_above c.args.page.now c.loop-entry.at, c.loop-entry.invariant.low);
    })

pub returns-clause-inside : goal.returns-clause-inside
returns-clause-inside c = omega (arith, Runs-count c.args.page.now (24 + number_at 2 c.args.page.now 4) _ c.loop-entry.at c.loop-entry.invariant.runs)
