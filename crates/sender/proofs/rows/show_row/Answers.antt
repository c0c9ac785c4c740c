use Rattle.std.proofs.Common.{◌≡◌, ◌-◌, ◌++◌, length, drop, ap, ◌∙◌, arith}
use Rattle.std.proofs.lemmas.List.{take_at, length-take, length-take-le, length-append, length-drop}
use Rattle.sender.proofs.Shown.{put_to_end, row_shown, row_filled}
use Rattle.sender.proofs.rows.show_row.Goals as goal

pub returns-in-Ok : goal.returns-in-Ok
returns-in-Ok g c =
    let m = c.min-inside.result in
    let xs = c.args.words.now in
    let ys = c.show_row.new.samples in
    let long : length ys ≡ m = c.show_row.auto.samples ∙ length-take-le m xs (omega arith) in
    put_to_end m (length (ys ++ drop m xs) - m) (ys ++ drop m xs) c.fill.new.self (omega arith)
    ∙ ap (λ l. l ++ c.fill.new.self) (take_at ys (drop m xs) m long)
    ∙ row_shown (g.S.Store.picture c.args.store.now) (g.S.Store.lawful c.args.store.now) c.args.plane c.args.row
    c.args.column xs m c.width.result c.saturating_sub.result c.width.ensures c.saturating_sub.ensures
    c.min-inside.ensures tt ys c.fill.new.self _ c.in-Ok.ensures.answer c.show_row.ensures.samples
    (c.fill.ensures.after (λ y e. e)) (simp (length-take, length-drop, length-append) (omega (arith, long)))

pub returns-in-Err : goal.returns-in-Err
returns-in-Err g c =
    let m = c.min-inside.result in
    let xs = c.args.words.now in
    let long : length c.show_row.new.samples ≡ m = c.show_row.auto.samples ∙ length-take-le m xs (omega arith) in
    row_filled (g.S.Store.picture c.args.store.now) (g.S.Store.lawful c.args.store.now) c.args.plane c.args.row
    c.args.column xs m c.width.result c.saturating_sub.result c.width.ensures c.saturating_sub.ensures
    c.min-inside.ensures c.in-Err.field-0 c.fill-in-Err.new.self _ c.in-Err.ensures.answer
    (c.fill-in-Err.ensures.after (λ y e. e)) (simp (length-append, length-drop) (omega (arith, long)))
