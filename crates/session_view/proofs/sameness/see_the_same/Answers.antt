use Rattle.session_view.proofs.Vocabulary.{◌≡◌, Some, refl, subst, client_at, both_back, ClientStands, AreKnownAlike}
use Rattle.session_view.proofs.Alike.{see_alike}
use Rattle.session_view.proofs.sameness.see_the_same.Goals as goal

pub returns-clause-exact : goal.returns-clause-exact
returns-clause-exact c = λ t st fit.
    let a = both_back ClientStands (client_at t c.args.client) (Some c.in-Some.a.now) c.in-Some.a.now
    (c.in-Some.ensures.stands t.clients st.clients) refl in
    let b = both_back ClientStands (client_at t c.args.other) (Some c.in-Some-get.b.now) c.in-Some-get.b.now
    (c.in-Some-get.ensures.stands t.clients st.clients) refl in
    let tells = c.are_alike.ensures t a.0 b.0 st fit a.2 b.2 in (
      (λ yes. (a.0, b.0, a.1, b.1, tells.0 yes)),
      (λ both.
          let is : both.0 ≡ a.0 = cc (a.1, both.2) in
          let its : both.1 ≡ b.0 = cc (b.1, both.3) in
          tells.1 (subst (λ m. AreKnownAlike t m b.0) is (subst (λ n. AreKnownAlike t both.0 n) its both.4))),
    )

pub returns-clause-granted : goal.returns-clause-granted
returns-clause-granted c = λ yes t st fit.
    let both = (returns-clause-exact c t st fit).0 yes in
    (both.0, both.1, both.2, both.3, see_alike t both.0 both.1 both.4)
