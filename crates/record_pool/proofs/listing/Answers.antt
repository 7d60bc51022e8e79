use mathlib.Core.Path.{sym, ◌∙◌}
use Rattle.record_pool.proofs.Passing.{passes_size}
use Rattle.record_pool.proofs.Gathering.{listing_broken, listing_sound}
use borrow.Author.Rules.{rules}
use Rattle.record_pool.proofs.listing.Goals as goal

pub walks-found-requires : goal.walks-found-requires
walks-found-requires c = passes_size _ (sym c.rules_ok.ensures ∙ c.if-rules_ok.true)

pub returns-then-rules_ok : goal.returns-then-rules_ok
returns-then-rules_ok c = listing_sound _ _ c.rules_ok.ensures _ _ _ _ c.if-rules_ok.true (search rules) c.walks-found.ensures

pub returns : goal.returns
returns c = listing_broken _ _ c.rules_ok.ensures c.if-rules_ok.false
