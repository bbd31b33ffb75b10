use Rattle.std.proofs.Common.{◌≢◌, ⊎_elim, inl, inr, ap, Err, ◌∙◌, arith}
use Rattle.swf_cli.proofs.ShowLemmas.{show_opened, show_closed}
use Rattle.swf_cli.proofs.ShowLemmas.{shown_blamed}
use Rattle.swf_cli.proofs.show.run_show.Goals as goal

pub returns-in-Ok-clause-runs : goal.returns-in-Ok-clause-runs
returns-in-Ok-clause-runs g c =
    let H = g.H.Store in
    let old = c.args.host.now in
    let opened = c.open_on.new.store in
    let which = c.show_all.ensures.which in
    let five : c.show_all.result ≢ 5 = λ e. ⊎_elim (λ z. omega (arith, e, z)) (λ d. ⊎_elim (λ f. omega (arith, e, f)) (λ s. omega (arith, e, s)) d) which in
    let three : c.show_all.result ≢ 3 = λ e. ⊎_elim (λ z. omega (arith, e, z)) (λ d. ⊎_elim (λ f. omega (arith, e, f)) (λ s. omega (arith, e, s)) d) which in
    show_opened H.moment H.left_since H.said H.may_leave H.seen g.H.Host.taken g.met.H.Store.only_now old opened c.show_all.new.host c.in-Ok.engine c.show_all.result
    (g.met.H.Host.beside_taken opened old c.open_on.ensures.beside) c.open_on.ensures.said
    (λ image is. c.in-Ok.ensures.opened image is) (λ image is history h. c.open_on.ensures.any_moment image is history h) c.show_all.ensures.shows five three

pub returns-in-Ok-clause-which : goal.returns-in-Ok-clause-which
returns-in-Ok-clause-which g c = ⊎_elim (λ z. inl z) (λ d. ⊎_elim (λ f. inr (inr (inl f))) (λ s. inr (inr (inr (inr s)))) d) c.show_all.ensures.which

pub returns-in-Ok-clause-blamed : goal.returns-in-Ok-clause-blamed
returns-in-Ok-clause-blamed g c =
    let H = g.H.Store in
    let old = c.args.host.now in
    let opened = c.open_on.new.store in
    let new = c.show_all.new.host in
    shown_blamed c.show_all.result (g.H.Host.host_faults old) (g.H.Host.host_faults opened) (g.H.Host.host_faults new) (H.store_faults old) (H.store_faults opened) (H.store_faults new)
    (g.met.H.Host.beside_faults opened old c.open_on.ensures.beside) c.in-Ok.ensures.cause c.show_all.ensures.blamed

pub returns-in-Err-clause-runs : goal.returns-in-Err-clause-runs
returns-in-Err-clause-runs g c =
    let H = g.H.Store in
    let old = c.args.host.now in
    let opened = c.open_on.new.store in
    let new = c.not_opened.new.host in
    show_closed H.moment H.left_since H.said H.may_leave H.seen g.H.Host.taken g.met.H.Store.only_now c.in-Err.fault old opened new c.not_opened.result
    (g.H.Host.host_faults opened) (g.H.Host.host_faults new) (H.store_faults opened) (H.store_faults new)
    (g.met.H.Host.beside_taken opened old c.open_on.ensures.beside) c.open_on.ensures.said c.not_opened.ensures.taken
    (λ image is at e. c.open_on.ensures.damaged image is at (c.in-Err.is ∙ ap Err e)) (λ image is history h. c.open_on.ensures.any_moment image is history h)
    (λ image is long. c.open_on.ensures.untouched image is long) c.not_opened.ensures.tells c.not_opened.ensures.closes
