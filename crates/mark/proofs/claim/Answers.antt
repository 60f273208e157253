-- What holds of every run that keeps the invariants. Assumes nothing.
use Rattle.model.specs.State.{entries}
use Rattle.model.proofs.Entries.{same-entry}
use Rattle.model.proofs.Theorem.{opened-inv, run-keeps}
use Rattle.mark.specs.Mark.{MarksHold}
use Rattle.mark.proofs.Current.{current, by-news, by-joining}
use Rattle.mark.proofs.Outside.{outside}
use Rattle.mark.proofs.claim.Goals as goal

pub returns : goal.returns
unfolding MarksHold
returns c = λ o real sts b.
    let i = (run-keeps entries same-entry (opened-inv o real) sts).inv in
    record {
      current = current i b;
      by_news = by-news i b;
      by_joining = by-joining entries i b;
      outside = outside entries same-entry b (opened-inv o real) sts;
    }
