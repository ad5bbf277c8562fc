-- `banner::banner` meets its contract: each word of the banner, and then the line's end.
use Rattle.matrix_market.proofs.Words.{banner-start, banner_step, banner_stop, banner_end}
use Rattle.matrix_market.proofs.banner.banner.Goals as goal

pub returns-in_err-first : goal.returns-in_err-first
returns-in_err-first c = rw c.from_residual.ensures (banner_stop _ _ _ _ _ (banner-start c.args.text.now) c.keyword.ensures c.in_err-first.was)

pub returns-in_err-second : goal.returns-in_err-second
returns-in_err-second c = rw c.from_residual-in_err-second.ensures (banner_stop _ _ _ _ _ (banner_step _ _ _ _ _ _ (banner-start c.args.text.now) c.keyword.ensures c.in_ok-first.was) c.keyword-2.ensures c.in_err-second.was)

pub returns-in_err-third : goal.returns-in_err-third
returns-in_err-third c = rw c.from_residual-in_err-third.ensures (banner_stop _ _ _ _ _ (banner_step _ _ _ _ _ _ (banner_step _ _ _ _ _ _ (banner-start c.args.text.now) c.keyword.ensures c.in_ok-first.was) c.keyword-2.ensures c.in_ok-second.was) c.keyword-3.ensures c.in_err-third.was)

pub returns-in_err-fourth : goal.returns-in_err-fourth
returns-in_err-fourth c = rw c.from_residual-in_err-fourth.ensures (banner_stop _ _ _ _ _ (banner_step _ _ _ _ _ _ (banner_step _ _ _ _ _ _ (banner_step _ _ _ _ _ _ (banner-start c.args.text.now) c.keyword.ensures c.in_ok-first.was) c.keyword-2.ensures c.in_ok-second.was) c.keyword-3.ensures c.in_ok-third.was) c.keyword-4.ensures c.in_err-fourth.was)

pub returns-in_err-fifth : goal.returns-in_err-fifth
returns-in_err-fifth c = rw c.from_residual-in_err-fifth.ensures (banner_stop _ _ _ _ _ (banner_step _ _ _ _ _ _ (banner_step _ _ _ _ _ _ (banner_step _ _ _ _ _ _ (banner_step _ _ _ _ _ _ (banner-start c.args.text.now) c.keyword.ensures c.in_ok-first.was) c.keyword-2.ensures c.in_ok-second.was) c.keyword-3.ensures c.in_ok-third.was) c.keyword-4.ensures c.in_ok-fourth.was) c.keyword-5.ensures c.in_err-fifth.was)

pub returns : goal.returns
returns c = banner_end _ _ _ (banner_step _ _ _ _ _ _ (banner_step _ _ _ _ _ _ (banner_step _ _ _ _ _ _ (banner_step _ _ _ _ _ _ (banner_step _ _ _ _ _ _ (banner-start c.args.text.now) c.keyword.ensures c.in_ok-first.was) c.keyword-2.ensures c.in_ok-second.was) c.keyword-3.ensures c.in_ok-third.was) c.keyword-4.ensures c.in_ok-fourth.was) c.keyword-5.ensures c.in_ok-fifth.was) c.line_over.ensures
