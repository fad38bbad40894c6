-- Worked cases, by evaluation: patterns in, patterns out. What stands in the matrix, in H, in Q and of the norms was
-- computed by the plain model of the Rust, oracle/src/model.rs; what stands in the workspace's first half, and where a
-- length does not fit, shows what is defined.
use Rattle.std.specs.Prelude.{◌≡◌, refl, ℕ, List, [], ◌∷◌}
use Rattle.matrix.specs.Known.{numbers, shown}
use Rattle.householder.specs.Known.{opened_here}
use Rattle.hessenberg.specs.Reduced.{Reduction, reduce_column, work_fits, reduced}
use Rattle.hessenberg.specs.Unpacked.{of_h, unpacked_h, unpacked_q}

-- every definition that a case computes with
unfoldable pub opened_hess : Unit {0}
unfolding opened_here reduce_column work_fits reduced of_h unpacked_h unpacked_q
opened_hess = tt

-- the columns 0.5 0.3 0.4 -0.2, then 0.1 0.2 -0 0.7, then 0.7 0.3 0.9 0.1, then -0.6 0.8 0.25 0.35
four : List ℕ
four =
    0x3fe0_0000_0000_0000 ∷ 0x3fd3_3333_3333_3333 ∷ 0x3fd9_9999_9999_999a ∷ 0xbfc9_9999_9999_999a
    ∷ 0x3fb9_9999_9999_999a ∷ 0x3fc9_9999_9999_999a ∷ 0x8000_0000_0000_0000 ∷ 0x3fe6_6666_6666_6666
    ∷ 0x3fe6_6666_6666_6666 ∷ 0x3fd3_3333_3333_3333 ∷ 0x3fec_cccc_cccc_cccd ∷ 0x3fb9_9999_9999_999a
    ∷ 0xbfe3_3333_3333_3333 ∷ 0x3fe9_9999_9999_999a ∷ 0x3fd0_0000_0000_0000 ∷ 0x3fd6_6666_6666_6666 ∷ []

-- eight sevens, of which two are left
sevens : List ℕ
sevens =
    0x401c_0000_0000_0000 ∷ 0x401c_0000_0000_0000 ∷ 0x401c_0000_0000_0000 ∷ 0x401c_0000_0000_0000
    ∷ 0x401c_0000_0000_0000 ∷ 0x401c_0000_0000_0000 ∷ 0x401c_0000_0000_0000 ∷ 0x401c_0000_0000_0000 ∷ []

-- the axes below the diagonal; then the last axes of each place, and the norms with their signs
axes : List ℕ
axes =
    0x3fe0_0000_0000_0000 ∷ 0x3fec_3c37_d4e8_f8ba ∷ 0x3fda_f032_5215_9d6b ∷ 0xbfca_f032_5215_9d6b
    ∷ 0x3fe9_8d3a_cde9_d666 ∷ 0x3fd4_bead_054b_ead3 ∷ 0xbfed_6f76_f8ec_3754 ∷ 0xbfd9_1ab4_8dc8_9141
    ∷ 0xbfb7_281a_6053_e466 ∷ 0x3fec_60d9_cc5e_97cc ∷ 0x3fd6_560f_8586_868c ∷ 0xbff0_0000_0000_0000
    ∷ 0xbfdd_9f5c_237e_a323 ∷ 0xbfc1_e188_6433_17c8 ∷ 0x3fd4_d981_4dc9_8795 ∷ 0x3fe8_dc08_20fd_2db7 ∷ []

norms : List ℕ
norms =
    0xbff0_0000_0000_0000 ∷ 0xbfd9_1ab4_8dc8_9141 ∷ 0xbfca_f032_5215_9d6b ∷ 0x401c_0000_0000_0000
    ∷ 0xbfe1_3b86_ea20_ae5d ∷ 0x3fe2_a49f_0961_2b2d ∷ 0x3fdb_62d7_c9e7_94c0 ∷ 0x401c_0000_0000_0000 ∷ []

left : Reduction → List (List ℕ)
left r = shown r.matrix ∷ shown r.work ∷ []

-- then a workspace of four numbers, which does not fit: nothing is done
reductions : left (reduced 4 (numbers four) (numbers sevens))
    ∷ left (reduced 4 (numbers four) (numbers (0 ∷ 0 ∷ 0 ∷ 0 ∷ []))) ∷ []
    ≡ (axes ∷ norms ∷ []) ∷ (four ∷ (0 ∷ 0 ∷ 0 ∷ 0 ∷ []) ∷ []) ∷ []
unfolding opened_hess four sevens axes norms left
reductions = refl

-- H and Q; of Q nothing is read
unpackings : shown (unpacked_h 4 (numbers norms) (numbers axes))
    ∷ shown (unpacked_q 4 (numbers axes) (numbers norms) (numbers four)) ∷ []
    ≡ (0x3fe0_0000_0000_0000 ∷ 0x3fe1_3b86_ea20_ae5d ∷ 0 ∷ 0
    ∷ 0x3fe9_8d3a_cde9_d666 ∷ 0x3fd4_bead_054b_ead3 ∷ 0x3fe2_a49f_0961_2b2d ∷ 0
    ∷ 0xbfb7_281a_6053_e466 ∷ 0x3fec_60d9_cc5e_97cc ∷ 0x3fd6_560f_8586_868c ∷ 0x3fdb_62d7_c9e7_94c0
    ∷ 0xbfdd_9f5c_237e_a323 ∷ 0xbfc1_e188_6433_17c8 ∷ 0x3fd4_d981_4dc9_8795 ∷ 0x3fe8_dc08_20fd_2db7 ∷ [])
    ∷ (0x3ff0_0000_0000_0000 ∷ 0 ∷ 0 ∷ 0x8000_0000_0000_0000
    ∷ 0 ∷ 0x3fe1_d3a6_0caf_0ca8 ∷ 0x3fe7_c4dd_663e_bb89 ∷ 0xbfd7_c4dd_663e_bb89
    ∷ 0 ∷ 0xbfcf_8368_042d_bbfd ∷ 0x3fe2_64fd_0027_444a ∷ 0x3fe8_f8b2_febd_6217
    ∷ 0 ∷ 0x3fe9_6140_89c9_78ca ∷ 0xbfd5_f87c_a521_090a ∷ 0x3fe0_1964_298d_2c25 ∷ []) ∷ []
unfolding opened_hess four axes norms
unpackings = refl
