mod TimedItems
