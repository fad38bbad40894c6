-- That the table of `Marked` of specs comes true, by evaluation. Each item is evaluated by itself, so that an error names
-- it. Assumes nothing.
use Rattle.std.specs.Prelude.{◌≡◌, refl, List, ◌++◌, map}
use Rattle.std.proofs.Common.{sym, ap, ◌∙◌}
use Rattle.std.proofs.lemmas.List.{map-append}
use Rattle.outcomes.specs.Call.{answer_of}
use Rattle.outcomes.specs.Marked.{Line, opened_marked, marked_calls, a, b, c, d, e, f, g, h, i, j, k, l, m, n}

-- ---- what is to be shown of lines

pub record Holds (lines : List Line) : Type 0 where
  pub all : map (λ x. answer_of x.call) lines ≡ map (λ x. x.answer) lines

infixl 5 ◌then◌
◌then◌ : {x y : List Line} → Holds x → Holds y → Holds (x ++ y)
◌then◌ {x} {y} h k = record {
  all = map-append _ x y ∙ ap (λ l. l ++ map (λ x. answer_of x.call) y) h.all
      ∙ ap (λ l. map (λ x. x.answer) x ++ l) k.all ∙ sym (map-append _ x y);
}

-- ---- the items

a_holds : Holds a
unfolding opened_marked a
a_holds = record { all = refl }

b_holds : Holds b
unfolding opened_marked b
b_holds = record { all = refl }

c_holds : Holds c
unfolding opened_marked c
c_holds = record { all = refl }

d_holds : Holds d
unfolding opened_marked d
d_holds = record { all = refl }

e_holds : Holds e
unfolding opened_marked e
e_holds = record { all = refl }

f_holds : Holds f
unfolding opened_marked f
f_holds = record { all = refl }

g_holds : Holds g
unfolding opened_marked g
g_holds = record { all = refl }

h_holds : Holds h
unfolding opened_marked h
h_holds = record { all = refl }

i_holds : Holds i
unfolding opened_marked i
i_holds = record { all = refl }

j_holds : Holds j
unfolding opened_marked j
j_holds = record { all = refl }

k_holds : Holds k
unfolding opened_marked k
k_holds = record { all = refl }

l_holds : Holds l
unfolding opened_marked l
l_holds = record { all = refl }

m_holds : Holds m
unfolding opened_marked m
m_holds = record { all = refl }

n_holds : Holds n
unfolding opened_marked n
n_holds = record { all = refl }

-- ---- all of them

pub marked : map (λ x. answer_of x.call) marked_calls ≡ map (λ x. x.answer) marked_calls
unfolding marked_calls
marked =
    (a_holds then b_holds then c_holds then d_holds then e_holds then f_holds then g_holds then h_holds then i_holds
    then j_holds then k_holds then l_holds then m_holds
    then n_holds).all
