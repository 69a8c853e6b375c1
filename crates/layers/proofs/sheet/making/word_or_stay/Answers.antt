use Rattle.layers.proofs.Sheets.{word_and_stay, word_alone}
use Rattle.layers.proofs.sheet.making.word_or_stay.Goals as goal

pub returns-then-p-q : goal.returns-then-p-q
returns-then-p-q g c = record {
  value = word_and_stay (g.C.Chart.meaning c.args.chart.now) c.args.p c.args.q _ c.word-word.ensures.answers_the_word _ c.if-p-q.true c.union.ensures.value;
}

pub returns-else-p-q : goal.returns-else-p-q
returns-else-p-q g c = record {
  value = word_alone (g.C.Chart.meaning c.args.chart.now) c.args.p c.args.q _ c.word-word.ensures.answers_the_word c.if-p-q.false;
}
