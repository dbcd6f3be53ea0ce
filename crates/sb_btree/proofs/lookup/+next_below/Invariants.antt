use Rattle.sb_btree.proofs.lookup.+next_below.Given as goal

abbrev pub decreases-next_below : goal.decreases-next_below
decreases-next_below l = l.level
